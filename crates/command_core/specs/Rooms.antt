-- The memory that a change needs.
pub use Rattle.granule_cells.specs.Rooms.{HasNoMore, IsRoomFor, makes_table}
