-- Books as bytes, for calls from C (01, 'Day file').
pub mod Bytes
pub mod Coding
