mod Answering
mod Entries
