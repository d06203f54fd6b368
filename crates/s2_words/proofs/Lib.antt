mod Placeless
mod Single
mod OneFault
