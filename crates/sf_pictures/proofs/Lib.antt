mod Assembled
mod Escapes
