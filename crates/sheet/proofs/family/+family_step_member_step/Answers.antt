-- `sheet::family`'s two steps meet their contracts: a row, then a stretch of those behind it.
use Prim.Native.Nat.{◌+◌}
use native.Mathlib.Omega.{arith}
use mathlib.Core.Path.{◌≡◌, ap}
use lib.ListN.{length}
use Rattle.sheet.specs.Walk.{Stands, elders_in, families_from, members_behind, members_from}
use Rattle.sheet.proofs.Seeking.{length_elders_in}
use Rattle.sheet.proofs.Stepping.{row_inside, row_room, text_room, went_on}
use Rattle.sheet.proofs.Turning.{last_members, younger_members, younger_stands}
use Rattle.sheet.proofs.family.+family_step_member_step.Goals as goal
use Rattle.sheet.proofs.family.+family_step_member_step.Goals.{member_step-in-Some, member_step-in-None}

pub member_step-write-wrote-requires-clause-i_in_bounds : goal.member_step-write-wrote-requires-clause-i_in_bounds
member_step-write-wrote-requires-clause-i_in_bounds t c =
    let a = c.args in
    let o = a.orders.now in
    row_room o.n o.t.now a.x a.most a.out.now c.requires.stands (omega (arith, c.if-most-eq0.false)) c.requires.x_in_bounds

pub member_step-slice_bounds-member_step-count : goal.member_step-slice_bounds-member_step-count
member_step-slice_bounds-member_step-count t c =
    let a = c.args in
    let o = a.orders.now in
    row_inside o.n o.t.now a.x a.most a.out.now c.requires.stands (omega (arith, c.if-most-eq0.false)) c.requires.x_in_bounds c.write-wrote.ensures

pub member_step-slice_bounds-member_step-start : goal.member_step-slice_bounds-member_step-start
member_step-slice_bounds-member_step-start t c = member_step-slice_bounds-member_step-count t c

pub member_step-member_step-rest-requires : goal.member_step-member_step-rest-requires
member_step-member_step-rest-requires t c =
    let a = c.args in
    let o = a.orders.now in
    let es = elders_in o.n o.t.now in
    let long = length_elders_in o.n o.t.now in
    let y = c.in-Some.ensures in
    let rows : members_from es c.below.result ≡ members_behind es a.x = rw c.below.ensures (younger_members es o.n long a.x y) in
    let stands : Stands o.n c.below.result = rw c.below.ensures (younger_stands es o.n long a.x y c.requires.stands) in
    let room = text_room o.n o.t.now a.x a.most a.out.now c.requires.stands (omega (arith, c.if-most-eq0.false)) c.requires.x_in_bounds c.write-wrote.ensures
    (members_from es c.below.result) rows in
    (omega (arith, ap length rows, c.decreases), (stands, room))

pub member_step-slice_bounds-family_step-count : goal.member_step-slice_bounds-family_step-count
member_step-slice_bounds-family_step-count t c =
    let a = c.args in
    let o = a.orders.now in
    row_inside o.n o.t.now a.x a.most a.out.now c.requires.stands (omega (arith, c.if-most-eq0.false)) c.requires.x_in_bounds c.write-wrote.ensures

pub member_step-slice_bounds-family_step-start : goal.member_step-slice_bounds-family_step-start
member_step-slice_bounds-family_step-start t c = member_step-slice_bounds-family_step-count t c

pub member_step-family_step-rest-requires : goal.member_step-family_step-rest-requires
member_step-family_step-rest-requires t c =
    let a = c.args in
    let o = a.orders.now in
    let es = elders_in o.n o.t.now in
    let rows = last_members es o.n (length_elders_in o.n o.t.now) a.x c.in-None.ensures in
    let room = text_room o.n o.t.now a.x a.most a.out.now c.requires.stands (omega (arith, c.if-most-eq0.false)) c.requires.x_in_bounds c.write-wrote.ensures
    (families_from es (a.x.root + 1) (a.x.family + 1)) rows in
    (omega (arith, ap length rows, c.decreases), (omega (arith, c.requires.stands), (omega (arith, c.requires.stands), room)))

-- the row and the stretch behind it are the whole stretch
pub member_step-returns : goal.member_step-returns
member_step-returns t c =
    let a = c.args in
    let o = a.orders.now in
    let es = elders_in o.n o.t.now in
    let long = length_elders_in o.n o.t.now in
    elim c.match-younger.branch [
      | member_step-in-Some w ↦
          let rows : members_from es w.below.result ≡ members_behind es a.x = rw w.below.ensures (younger_members es o.n long a.x w.in-Some.ensures) in
          rw (w.out-is, w.rest-is)
          (went_on o.n o.t.now a.x a.most a.out.now c.requires.stands (omega (arith, c.if-most-eq0.false)) c.requires.x_in_bounds c.write-wrote.ensures
          (members_from es w.below.result) rows w.member_step-rest.ensures)
      | member_step-in-None w ↦
          let rows = last_members es o.n long a.x w.in-None.ensures in
          rw (w.out-is, w.rest-is)
          (went_on o.n o.t.now a.x a.most a.out.now c.requires.stands (omega (arith, c.if-most-eq0.false)) c.requires.x_in_bounds c.write-wrote.ensures
          (families_from es (a.x.root + 1) (a.x.family + 1)) rows w.family_step-rest.ensures)
    ]

pub member_step-overflow_add-result : goal.member_step-overflow_add-result
member_step-overflow_add-result t c =
    omega (arith, (member_step-returns t c).text.long, c.requires.x_in_bounds, c.well_formed)
