-- An entry of any kind, a head and then numbers: what is written is read back, and what is read is written as the very bytes.
use Prim.Native.Nat.{ℕ, ◌+◌}
use native.Mathlib.Omega.{arith}
use mathlib.Core.Path.{◌≡◌, refl, sym, ap, ◌∙◌}
use mathlib.Core.Bool.{Bool, true, false, cond}
use mathlib.Core.List.{List, ◌++◌, append_assoc}
use lib.Dec.{ltb}
use lib.ListN.{length, drop, length-append, length-drop}
use lib.Seq.{drop-append_seam, drop-drop}
use Rattle.run.proofs.All.{all_drop}
use Rattle.quote.specs.declared.Quote.{Quote}
use Rattle.groups.specs.Taken.{Taken, none, taken, behind, list_in, joined, AreBytes, Exact, lawful_list}
use Rattle.groups.specs.Groups.{in64, number_bytes, number_in}
use Rattle.groups.proofs.Lists.{Inside, list_exact, list_inside, length_list_in}
use Rattle.groups.proofs.Numbers.{number_exact, number_inside}
use Rattle.saved.specs.Heads.{head_bytes, head_width, head_in}
use Rattle.saved.specs.Entries.{entry_in, if_sound}
use Rattle.saved.proofs.Heads.{HeadFits, head_long, head_back, head_forth, not_taken, same_taken}

-- ---- two runs, one behind another

behind_first : (a b s : List ℕ) (k : ℕ) → length a ≡ k → drop k (a ++ (b ++ s)) ≡ b ++ s
behind_first a b s k e = rw (← e) (drop-append_seam a (b ++ s))

long_both : (a b : List ℕ) (k : ℕ) → length a ≡ k → length (a ++ b) ≡ k + length b
long_both a b k e = length-append a b ∙ rw e

wide_both : (a b : List ℕ) (h v u : ℕ) → length a ≡ h → v ≡ length b → h + v ≡ u → u ≡ length (a ++ b)
wide_both a b h v u e f g = omega (arith, length-append a b)

both_there : (a b s : List ℕ) (k h v u : ℕ) → h ≡ k → h + v ≡ u → a ++ drop k s ≡ s → b ++ drop v (drop h s) ≡ drop h s → (a ++ b) ++ drop u s ≡ s
both_there a b s k h v u e f p q = rw (← f, append_assoc a b (drop (h + v) s), ← drop-drop v h s, q, e) p

module _ {A : Type 0} (sound lawful : A → Bool) (head : A → Quote) (numbers : A → List ℕ) (make : Quote → List ℕ → A) (w n : ℕ) where
  -- how an entry is taken apart and made of its parts
  pub record Kind : Type 0 where
    pub sounds : (a : A) → lawful a ≡ true → sound a ≡ true
    pub fits : (a : A) → lawful a ≡ true → HeadFits w (head a)
    pub counts : (a : A) → lawful a ≡ true → lawful_list in64 n (numbers a) ≡ true
    pub lawful_so : (a : A) → sound a ≡ true → lawful_list in64 n (numbers a) ≡ true → lawful a ≡ true
    pub whole : (a : A) → sound a ≡ true → make (head a) (numbers a) ≡ a
    pub head_made : (q : Quote) (vs : List ℕ) → head (make q vs) ≡ q
    pub numbers_made : (q : Quote) (vs : List ℕ) → length vs ≡ n → numbers (make q vs) ≡ vs

  abbrev pub read_entry : List ℕ → Taken A
  read_entry s = if_sound sound (entry_in make w n s)

  abbrev pub write_entry : A → List ℕ
  write_entry a = head_bytes w (head a) ++ joined number_bytes (numbers a)

  -- what is read, taken apart
  record Parts (s : List ℕ) (a : A) (u : ℕ) : Type 0 where
    quote : Quote
    values : List ℕ
    h : ℕ
    v : ℕ
    sound_made : sound a ≡ true
    head_read : head_in w s ≡ taken quote h
    numbers_read : list_in number_in n (drop h s) ≡ taken values v
    made : make quote values ≡ a
    width : h + v ≡ u

  parts : (s : List ℕ) (a : A) (u : ℕ) → read_entry s ≡ taken a u → Parts s a u
  parts s a u e = by_head (head_in w s) refl e
    where
      judged : (q : Quote) (vs : List ℕ) (h v : ℕ) (t : Bool) → sound (make q vs) ≡ t → head_in w s ≡ taken q h → list_in number_in n (drop h s) ≡ taken vs v
          → cond t (taken (make q vs) (h + v)) none ≡ taken a u → Parts s a u
      judged q vs h v true g p k e =
          let (made, width) = same_taken e in
          record { quote = q; values = vs; h = h; v = v; sound_made = ap sound (sym made) ∙ g; head_read = p; numbers_read = k; made = made; width = width }
      judged q vs h v false g p k e = absurd (not_taken e)

      by_numbers : (q : Quote) (h : ℕ) (t : Taken (List ℕ)) → head_in w s ≡ taken q h → list_in number_in n (drop h s) ≡ t
          → if_sound sound (behind t (λ vs v. taken (make q vs) (h + v))) ≡ taken a u → Parts s a u
      by_numbers q h none p k e = absurd (not_taken e)
      by_numbers q h (taken vs v) p k e = judged q vs h v (sound (make q vs)) refl p k e

      by_head : (t : Taken Quote) → head_in w s ≡ t
          → if_sound sound (behind t (λ q h. behind (list_in number_in n (drop h s)) (λ vs v. taken (make q vs) (h + v)))) ≡ taken a u → Parts s a u
      by_head none p e = absurd (not_taken e)
      by_head (taken q h) p e = by_numbers q h (list_in number_in n (drop h s)) p refl e

  -- what is read is sound, and lies inside
  pub entry_sound : (s : List ℕ) (a : A) (u : ℕ) → read_entry s ≡ taken a u → sound a ≡ true
  entry_sound s a u e = (parts s a u e).sound_made

  pub entry_inside : Inside read_entry
  entry_inside s a u e =
      let p = parts s a u e in
      let head = head_forth w s p.quote p.h p.head_read in
      let numbers = list_inside number_in number_inside n (drop p.h s) p.values p.v p.numbers_read in
      omega (arith, head.width, head.inside, p.width, length-drop p.h s)

  module _ (kind : Kind) where
    values_exact : Exact (lawful_list in64 n) (list_in number_in n) (joined number_bytes)
    values_exact = list_exact number_exact n

    entry_back : (a : A) (s : List ℕ) → lawful a ≡ true → read_entry (write_entry a ++ s) ≡ taken a (length (write_entry a))
    entry_back a s l =
        let h = head_bytes w (head a) in
        let vs = joined number_bytes (numbers a) in
        let fits = kind.fits a l in
        rw (
          append_assoc h vs s,
          head_back fits (vs ++ s),
          behind_first h vs s (head_width w) (head_long fits),
          values_exact.back (numbers a) s (kind.counts a l),
          kind.whole a (kind.sounds a l),
          kind.sounds a l,
          long_both h vs (head_width w) (head_long fits),
        )

    -- what is read is lawful, and is written as the very bytes
    record Written (s : List ℕ) (a : A) (u : ℕ) : Type 0 where
      each : lawful a ≡ true
      wide : u ≡ length (write_entry a)
      same : write_entry a ++ drop u s ≡ s

    entry_forth : (s : List ℕ) (a : A) (u : ℕ) → AreBytes s → read_entry s ≡ taken a u → Written s a u
    entry_forth s a u b e =
        let p = parts s a u e in
        let h = p.h in
        let r = head_forth w s p.quote h p.head_read in
        let bytes : AreBytes (drop h s) = all_drop (λ x. ltb x 256) s h b in
        let count = length_list_in number_in n (drop h s) p.values p.v p.numbers_read in
        let quote : head a ≡ p.quote = ap head (sym p.made) ∙ kind.head_made p.quote p.values in
        let values : numbers a ≡ p.values = ap numbers (sym p.made) ∙ kind.numbers_made p.quote p.values count in
        let used = values_exact.used (drop h s) p.values p.v bytes p.numbers_read in
        let same = values_exact.forth (drop h s) p.values p.v bytes p.numbers_read in
        let hs = head_bytes w p.quote in
        let vs = joined number_bytes p.values in
        record {
          each = kind.lawful_so a p.sound_made (rw values (values_exact.sound (drop h s) p.values p.v bytes p.numbers_read));
          wide = rw (quote, values) (wide_both hs vs h p.v u (r.long ∙ sym r.width) used p.width);
          same = rw (quote, values) (both_there hs vs s (head_width w) h p.v u r.width p.width r.bytes same);
        }

    pub entry_exact : Exact lawful read_entry write_entry
    entry_exact =
        record {
          back = entry_back;
          sound = λ s a u b e. (entry_forth s a u b e).each;
          used = λ s a u b e. (entry_forth s a u b e).wide;
          forth = λ s a u b e. (entry_forth s a u b e).same;
        }
