-- `image::store` meets its contract: the piece is its record's line (demand 2), and a number stored over its copy is one stored into the bytes of the record.
use native.Mathlib.Omega.{arith}
use Rattle.image.proofs.Stores.{said_length, image_stored}
use Rattle.image.proofs.store.Goals as goal

pub slice_bounds-store-end : goal.slice_bounds-store-end
slice_bounds-store-end c = omega (arith, said_length c.args.piece.now c.args.r c.requires.piece_value)

pub returns : goal.returns
returns c =
    let a = c.args in
    image_stored a.piece.now a.out.now a.r _ _ c.requires.piece_value c.requires.in_bounds c.store.ensures c.put_numbers.ensures
