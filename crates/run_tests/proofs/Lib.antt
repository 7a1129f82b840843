mod Fitting
mod OwnCalls
