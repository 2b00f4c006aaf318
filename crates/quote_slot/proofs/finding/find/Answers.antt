-- `quote_slot::finding::find` meets its contract: the earliest row that begins with the bytes of the quote is its place.
use Prim.Native.Nat.{ℕ}
use native.Mathlib.Omega.{arith}
use lib.ListN.{replicate, length-replicate}
use Rattle.quote_slot.proofs.Alike.{all_bytes, found_row}
use Rattle.quote_slot.proofs.finding.find.Goals as goal

pub returns : goal.returns
returns c =
    let s = c.args.t.now in
    let bytes = all_bytes s (λ i. omega (arith, c.type_inv.t i)) in
    found_row c.quotes.ensures s c.args.n c.requires.n_in_bounds bytes c.args.q c.requires.fits_quote (replicate 41 0) _ (length-replicate {A = ℕ} 41 0) c.put_quote.ensures c.scan.ensures
