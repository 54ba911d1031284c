mod TypeTests
mod Texts
mod TypeCalls
