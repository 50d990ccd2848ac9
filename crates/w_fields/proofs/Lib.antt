mod Loop
mod SizedBytes
mod Utf8
