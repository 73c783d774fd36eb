pub mod StripTrip
