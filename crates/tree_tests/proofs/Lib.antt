mod TestColumns
