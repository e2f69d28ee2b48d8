mod Worked
mod Forms
