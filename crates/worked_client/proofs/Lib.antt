mod Lists
mod Answers
mod Moving
mod Asking
mod Client
