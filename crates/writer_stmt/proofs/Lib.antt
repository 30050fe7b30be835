pub mod Said
pub mod View
pub mod Viewed
pub mod Below
pub mod Lists
pub mod Program
