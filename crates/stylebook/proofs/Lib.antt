mod Images
mod Listed
