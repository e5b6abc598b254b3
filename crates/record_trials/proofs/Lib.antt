mod Absent
mod Released
