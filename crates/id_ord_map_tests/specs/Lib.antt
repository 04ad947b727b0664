pub mod KeepBefore
