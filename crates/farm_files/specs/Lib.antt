pub mod Addresses
pub mod Courses
pub mod Inputs
pub mod MapCourses
pub mod inner
pub mod Course
