-- How large a chunk of the input is, and what is printed of it.
use mathlib.Core.Path.{◌≡◌, refl}
use Rattle.drop_sheet.specs.declared.TheConstants.{ROOM}

pub room_sized : ROOM ≡ 65536
room_sized = refl
