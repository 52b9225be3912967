pub mod Dump
pub mod Places
