-- `index::tag::bucket` meets its contract: by the number itself, or by one that is known to be it.
use Rattle.std.proofs.Common.{◌+◌, ◌/◌, ◌^◌, sym, refl, ap}
use Rattle.index.proofs.Tagging.{bucket_by}
use Rattle.index.proofs.tag.bucket.Goals as goal

pub returns-then-m-eq-USUAL : goal.returns-then-m-eq-USUAL
returns-then-m-eq-USUAL c =
    let h = c.tag-h in
    let a = c.args in
    bucket_by a.m h.result _ a.key.now h.ensures (ap (λ m. h.result / (2 ^ 32 / m + 1)) (sym c.if-m-eq-USUAL.true))

pub returns : goal.returns
returns c =
    let h = c.tag-h in
    let a = c.args in
    bucket_by a.m h.result _ a.key.now h.ensures refl
