-- The place of an order by its key is the earliest record with that key, Source and Token as one run: the index answers what the lookup promises.
use Prim.Native.Nat.{ℕ, zero, suc, ◌+◌, ◌*◌, ◌≤◌}
use native.Mathlib.Omega.{arith}
use mathlib.Core.Path.{◌≡◌, refl, sym, ap, ◌∙◌}
use mathlib.Core.Bool.{◌&&◌, and_assoc}
use mathlib.Core.List.{List, [], ◌∷◌}
use lib.Dec.{eqb}
use lib.ListN.{length, take, drop, length-drop, length-take}
use lib.Seq.{sets, take_all, take_at, drop_at}
use Rattle.run.specs.Runs.{part, same}
use Rattle.run.proofs.Parts.{part_part}
use Rattle.run.proofs.Stores.{sets_whole}
use Rattle.order.specs.Names.{same_key}
use Rattle.order.specs.declared.Key.{Key}
use Rattle.order.specs.declared.Order.{Order}
use Rattle.day.specs.Machine.{place}
use Rattle.section.specs.Sections.{record_of, KeyOf}
use Rattle.section.specs.declared.Section.{Section}
use Rattle.section.proofs.Places.{key_in_record}
use Rattle.index.specs.Searches.{has_key, earliest}
use Rattle.index.proofs.Listed.{earliest_listed}
use Rattle.slot.specs.Slots.{slot_width, key_in, key_bytes, order_in}
use Rattle.slot.specs.Places.{slots, slot_keys, slot, orders_in}
use Rattle.slot.proofs.Runs.{length_key}

pub keys_of_slots : KeyOf slot_keys slots
keys_of_slots = record { steps = refl; from = omega arith; upto = omega arith }

-- ---- one key

-- two runs are the same if their first n bytes are, and the others
same_cut : (n : ℕ) (a b : List ℕ) → same a b ≡ (same (take n a) (take n b) && same (drop n a) (drop n b))
same_cut zero a b = refl
same_cut (suc n) [] [] = refl
same_cut (suc n) [] (y ∷ b) = refl
same_cut (suc n) (x ∷ a) [] = refl
same_cut (suc n) (x ∷ a) (y ∷ b) =
    ap (λ t. eqb x y && t) (same_cut n a b) ∙ sym (and_assoc (eqb x y) (same (take n a) (take n b)) (same (drop n a) (drop n b)))

behind_source : (b : List ℕ) → length b ≤ 26 → part b 6 20 ≡ drop 6 b
behind_source b h = take_all 20 (drop 6 b) (rw (length-drop 6 b) (omega arith))

same_keys : (a b : List ℕ) → length a ≤ 26 → length b ≤ 26 → same_key (key_in a) (key_in b) ≡ same a b
same_keys a b h k = rw (behind_source a h, behind_source b k) (sym (same_cut 6 a b))

slot_key : (s : List ℕ) (i : ℕ) → key_in (slot s i) ≡ key_in (record_of slot_keys s i)
slot_key s i =
    sym
    (rw (key_in_record keys_of_slots s i)
    (λ j.
    record {
      source = part_part (slot s i) 0 26 0 6 (omega arith) j;
      token = part_part (slot s i) 0 26 6 20 (omega arith) j;
    }))

slot_has : (s : List ℕ) (i : ℕ) (key : List ℕ) → length key ≡ 26 → same_key (key_in (slot s i)) (key_in key) ≡ has_key slot_keys s key i
slot_has s i key e =
    ap (λ k. same_key k (key_in key)) (slot_key s i)
    ∙ same_keys (record_of slot_keys s i) key (omega (arith, length-take 26 (drop (8 + slot_width * i) s))) (omega arith)

-- a key stored over all of a run of its length
pub key_joined : (l b : List ℕ) (k : Key) → length l ≡ 26 → length k.source ≡ 6 → length k.token ≡ 20 → b ≡ sets l 0 (key_bytes k) → key_in b ≡ k
key_joined l b k w e f g =
    let whole : b ≡ key_bytes k = g ∙ sets_whole l (key_bytes k) (length_key k e f ∙ sym w) in
    let behind : part (key_bytes k) 6 20 ≡ k.token =
    ap (take 20) (drop_at k.source k.token 6 e) ∙ take_all 20 k.token (omega arith) in
    rw whole (λ i. record { source = take_at k.source k.token 6 e i; token = behind i })

-- ---- all orders

pub earliest_place : (s : List ℕ) (n : ℕ) (key : List ℕ) → length key ≡ 26 → earliest slot_keys s n key ≡ place (key_in key) (orders_in 0 n s)
earliest_place s n key e =
    earliest_listed (λ (o : Order). same_key o.key (key_in key)) (place (key_in key)) refl (λ o os. refl) order_in slots slot_keys s key n
    (λ i l. slot_has s i key e)

-- ---- `slot::finding`: records are sought over keys that are known to be the table's, by a key that is lent as the first 26 bytes of its own run

pub key_whole : (key : List ℕ) → length key ≡ 26 → take 26 key ≡ key
key_whole key e = take_all 26 key (omega arith)

module _ {keys : Section} (q : keys ≡ slot_keys) where
  pub found_place : (s : List ℕ) (n : ℕ) (key : List ℕ) → length key ≡ 26 → {found : ℕ} → found ≡ earliest keys s n (take 26 key)
      → found ≡ place (key_in key) (orders_in 0 n s)
  found_place s n key e f = f ∙ rw (key_whole key e, q) (earliest_place s n key e)
