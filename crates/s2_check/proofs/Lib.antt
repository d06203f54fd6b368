mod Answered
mod Cuts
mod Wholes
