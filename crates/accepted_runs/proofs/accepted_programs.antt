pub mod MainMethods
