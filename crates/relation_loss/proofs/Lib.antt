pub mod TrainsLeft
