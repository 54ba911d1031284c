mod Joins
mod Tops
mod Turns
