-- Stores into the lent bytes that leave the index: those that miss every key of the records entered.
use Rattle.std.proofs.Common.{◌≡◌, ℕ, ◌+◌, ◌-◌, ◌*◌, ◌<◌, ◌≤◌, Bool, true, false, eqb, List, length, sym, refl, ap, ◌∙◌, arith, eqb-true}
use borrow.Author.Tests.{eqb-false}
use lib.Seq.{sets, length-sets}
use Rattle.run.specs.Runs.{part}
use Rattle.section.specs.Sections.{start_of, record_of, Inside, KeyOf}
use Rattle.section.specs.declared.Section.{Section}
use Rattle.section.proofs.Places.{key_in_record}
use Rattle.section.proofs.Stores.{kept_front, kept_gap, kept_past, stored_here, stored_elsewhere}
use Rattle.index.specs.Tags.{bucket_of}
use Rattle.index.specs.Indexes.{latest, bucket_in, Indexed, Appends}
use Rattle.index.proofs.Chains.{latest_same}

index_kept : {keys : Section} {s u : List ℕ} {n : ℕ} {heads nexts : List ℕ} → length s ≡ length u → ((i : ℕ) → i < n → record_of keys s i ≡ record_of keys u i)
    → Indexed keys s n heads nexts → Indexed keys u n heads nexts
index_kept {keys} {s} {u} {n} {heads} {nexts} z e x =
    let m = length heads in
    let f = bucket_in keys s m in
    let g = bucket_in keys u m in
    let one : (i : ℕ) → i < n → f i ≡ g i = λ i l. ap (bucket_of m) (e i l) in
    record {
      holds = record { apart = x.holds.apart; inside = λ i l. rw z at (x.holds.inside i l) };
      some = x.some;
      room = x.room;
      firsts = λ b l. x.firsts b l ∙ latest_same f g n b one;
      chains = λ i l. x.chains i l ∙ latest_same f g i (f i) (λ j k. one j (omega arith)) ∙ ap (latest g i) (one i l);
    }

module _ {keys : Section} {s : List ℕ} {n : ℕ} {heads nexts : List ℕ} (x : Indexed keys s n heads nexts) (xs : List ℕ) where
  -- before the first key, as into a header
  pub index_front : (at : ℕ) → at + length xs ≤ keys.first → Indexed keys (sets s at xs) n heads nexts
  index_front at h = index_kept (sym (length-sets s at xs)) (λ i l. sym (kept_front keys s xs at h i)) x

  -- between two keys, as into a record behind its key
  pub index_gap : (at j : ℕ) → start_of keys j + keys.width ≤ at → at + length xs ≤ start_of keys (j + 1) → Indexed keys (sets s at xs) n heads nexts
  index_gap at j h k = index_kept (sym (length-sets s at xs)) (λ i l. sym (kept_gap keys s xs at j h k i)) x

  -- behind them all, as into a section that follows
  pub index_past : (at : ℕ) → start_of keys n + keys.width ≤ at + keys.step → Indexed keys (sets s at xs) n heads nexts
  index_past at h = index_kept (sym (length-sets s at xs)) (λ i l. sym (kept_past keys s xs at n h i l)) x

-- a record stored anew with the key that it had
module _ {records keys : Section} (key : KeyOf keys records) {s : List ℕ} {n : ℕ} {heads nexts : List ℕ} (x : Indexed keys s n heads nexts) where
  pub index_same : (i : ℕ) (b : List ℕ) → records.width ≤ records.step → Inside records s i → length b ≡ records.width
      → part b (keys.first - records.first) keys.width ≡ record_of keys s i → Indexed keys (sets s (start_of records i) b) n heads nexts
  index_same i b a h e same = index_kept (sym (length-sets s (start_of records i) b)) (λ j l. sym (one j (eqb i j) refl)) x
    where
      one : (j : ℕ) (t : Bool) → eqb i j ≡ t → record_of keys (sets s (start_of records i) b) j ≡ record_of keys s j
      one j true q =
          let here : i ≡ j = eqb-true i j q in
          rw (← here)
          (key_in_record key (sets s (start_of records i) b) i
          ∙ ap (λ r. part r (keys.first - records.first) keys.width) (stored_here records s b i e h)
          ∙ same)
      one j false q =
          key_in_record key (sets s (start_of records i) b) j
          ∙ ap (λ r. part r (keys.first - records.first) keys.width) (stored_elsewhere records s b i j e a (eqb-false i j q))
          ∙ sym (key_in_record key s j)

-- `index::entry::append`: record n is stored behind all keys
pub append_kept : {records keys : Section} {s : List ℕ} {n : ℕ} {bytes heads nexts : List ℕ} → Indexed keys s n heads nexts
    → Appends records keys s n bytes nexts → {t : List ℕ} → t ≡ sets s (start_of records n) bytes → Indexed keys t n heads nexts
append_kept {records} {keys} {s} {n} {bytes} x y e =
    let even : keys.step * n ≡ records.step * n = ap (λ k. k * n) y.keyed.steps in
    let past : start_of keys n + keys.width ≤ start_of records n + keys.step = omega (arith, y.keyed.steps, y.keyed.upto, y.holds.apart) in
    rw e (index_past x bytes (start_of records n) past)
