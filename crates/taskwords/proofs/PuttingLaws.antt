-- The words of an array placed one after another, as the loop law of `room` has it, and what is then given.
use mathlib.Core.List.{List, [], ◌∷◌, ◌++◌}
use mathlib.Core.Path.{◌≡◌, refl, sym, ap, ◌∙◌, subst}
use Prim.Native.Nat.{ℕ, ◌+◌, ◌<◌, ◌≤◌}
use native.Mathlib.Omega.{arith}
use lib.ListN.{length, get_or, set, take, drop, take-append-drop, length-drop}
use lib.Seq.{drop-cons, take-add, take_all}
use Rattle.taskwords.specs.Answers.{Fitting, Given}
use Rattle.room.proofs.Gathering.{Gathering, begun, all_placed, gather_itself}
use Rattle.room.proofs.PlacingLaws.{placed_none, placed_more, placed_byte, placed_past, placed_length}
use Rattle.room.specs.Placing.{last_place, Placed}
use Rattle.table.proofs.FlagLaws.{by_order}
use Rattle.table.specs.Lists.{gather}
use Rattle.table.specs.Sizes.{all_steps}

-- Each word of the array is a piece.
abbrev pub word_of : List ℕ → ℕ → List ℕ
word_of words i = get_or words i 0 ∷ []

module _ (words : List ℕ) (n : ℕ) (whole : length words ≡ n) where
  all_words : gather (word_of words) n ≡ words
  all_words = ap (λ k. gather (word_of words) k) (sym whole) ∙ gather_itself words

  pub words_begun : (room : List ℕ) (at : ℕ) → at + n ≤ last_place → Gathering (word_of words) n room room at at 0
  words_begun room at h = begun (word_of words) n room at (omega (arith, ap length all_words, whole))

  pub words_placed : {before room : List ℕ} {at next i : ℕ} → Gathering (word_of words) n before room at next i → n ≤ i
      → Placed before room at next words
  words_placed {before} {room} {at} {next} g h = subst (Placed before room at next) all_words (all_placed g h)

-- ---- the first words of an array placed, without a test at each

module _ {before room : List ℕ} {at : ℕ} (words : List ℕ) where
  pub part_more : {i : ℕ} → i < length words → Placed before room at (at + i) (take i words)
      → Placed before (set room (at + i) (get_or words i 0)) at (at + (i + 1)) (take (i + 1) words)
  part_more {i} h p =
      let one : take 1 (drop i words) ≡ get_or words i 0 ∷ [] = rw (drop-cons words i 0 h) in
      let parts : take i words ++ (get_or words i 0 ∷ []) ≡ take (i + 1) words = ap (λ (l : List ℕ). take i words ++ l) (sym one) ∙ sym (take-add i 1 words) in
      let next : at + i + 1 ≡ at + (i + 1) = omega arith in
      subst (λ (k : ℕ). Placed before (set room (at + i) (get_or words i 0)) at k (take (i + 1) words)) next
      (subst (Placed before (set room (at + i) (get_or words i 0)) at (at + i + 1)) parts (placed_more p (placed_byte room (at + i) (get_or words i 0))))

-- Past the room words are only counted.
placed_beyond : (room : List ℕ) (at : ℕ) (words : List ℕ) → length room ≤ at → Placed room room at (at + length words) words
placed_beyond room at [] h = subst (λ (k : ℕ). Placed room room at k []) (omega arith) (placed_none room at)
placed_beyond room at (w ∷ words) h =
    let next : at + 1 + length words ≡ at + length (w ∷ words) = omega arith in
    subst (λ (k : ℕ). Placed room room at k (w ∷ words)) next
    (placed_more (placed_past room at w h) (placed_beyond room (at + 1) words (omega arith)))

pub part_all : {before room : List ℕ} {at count : ℕ} (words : List ℕ) → length words ≡ all_steps → Fitting (length before) at count
    → Placed before room at (at + count) (take count words) → Placed before room at (at + all_steps) words
part_all {before} {room} {at} {count} words whole fits p =
    by_order count all_steps
    (λ l.
    let long = length-drop count words in
    let next : at + count + length (drop count words) ≡ at + all_steps = omega arith in
    let rest : length room ≤ at + count = omega (arith, placed_length p, fits.rest l) in
    subst (λ (k : ℕ). Placed before room at k words) next
    (subst (Placed before room at (at + count + length (drop count words))) (take-append-drop count words)
    (placed_more p (placed_beyond room (at + count) (drop count words) rest))))
    (λ l.
    let same : count ≡ all_steps = omega (arith, fits.some) in
    let all : take count words ≡ words = take_all count words (omega arith) in
    subst (Placed before room at (at + all_steps)) all (subst (λ (k : ℕ). Placed before room at (at + k) (take count words)) same p))

-- The words of an answer placed from the first word on, with the number returned.
pub given_words : {n : ℕ} {words before after : List ℕ} {next : ℕ} → length words ≡ n → Placed before after 0 next words
    → Given n words before after (get_or words 0 0)
given_words e p = record { size = e; number = refl; room_is = p.room_is }
