pub mod Subcommands
