-- Lists written into lent tables, and the bytes of quoted texts.
pub mod Write
pub mod Bytes
