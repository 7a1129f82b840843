mod SmallBytes
