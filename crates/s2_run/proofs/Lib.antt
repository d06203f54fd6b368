mod Bridges
mod Closings
mod Fronts
