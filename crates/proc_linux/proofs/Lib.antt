mod HostReading
mod Looking
