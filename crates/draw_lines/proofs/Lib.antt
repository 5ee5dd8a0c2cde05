mod Below
mod Counting
