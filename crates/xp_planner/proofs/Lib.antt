mod Seeking
mod Going
