pub mod Courses
pub mod MetaCourses
pub mod MetaLines
pub mod inner
