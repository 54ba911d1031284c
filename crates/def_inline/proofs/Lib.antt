mod Visits
mod Bodies
mod Entries
