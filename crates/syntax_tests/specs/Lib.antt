pub mod OneModule
