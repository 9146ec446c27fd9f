pub mod Question16
