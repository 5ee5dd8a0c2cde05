mod JoinedRows
mod Lanes
mod Lived
