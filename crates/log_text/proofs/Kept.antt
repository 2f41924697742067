-- Laws of the unfinished line (`unfinished`): its length, the turns of the loop that moves it to the front, and the text then.
-- Assumes nothing.
use mathlib.Core.Path.{◌≡◌, sym, ◌∙◌, ap}
use mathlib.Core.List.{List, ◌++◌}
use Prim.Native.Nat.{ℕ, ◌-◌, ◌≤◌, min}
use native.Mathlib.Omega.{arith}
use lib.ListN.{length, take, drop, length-take, length-drop, take-append-drop}
use lib.Seq.{take-length, take-take}
use Rattle.log_text.specs.Unfinished.{most_kept, unfinished}

pub kept_length : (text : List ℕ) (from end : ℕ) → length (unfinished text from end) ≡ min (min (end - from) most_kept) (length text - from)
unfolding unfinished
kept_length text from end = rw (length-take, length-drop)

-- no more is kept than this
pub kept_most : (text : List ℕ) (from end : ℕ) → length (unfinished text from end) ≤ most_kept
kept_most text from end = omega (arith, kept_length text from end)

-- ---- the text with the unfinished line at its front

module _ (text : List ℕ) (from end : ℕ) {count : ℕ} (told : count ≡ min (min (end - from) most_kept) (length text - from)) where
  -- what the text is then
  abbrev Kept : List ℕ → Type 0
  Kept text' =
      (count ≡ length (unfinished text from end)) × (text' ≡ unfinished text from end ++ drop (length (unfinished text from end)) text)

  is_kept : count ≡ length (unfinished text from end)
  is_kept = told ∙ sym (kept_length text from end)

  -- the kept bytes are the first `count` from `from` on
  kept_is : unfinished text from end ≡ take count (drop from text)
  unfolding unfinished
  kept_is =
      sym (take-length (unfinished text from end))
      ∙ take-take (length (unfinished text from end)) (min (end - from) most_kept) (drop from text) (omega (arith, kept_length text from end))
      ∙ ap (λ (n : ℕ). take n (drop from text)) (sym is_kept)

  pub down : {text' : List ℕ} → text' ≡ take count (drop from text) ++ drop count text → Kept text'
  down e = (is_kept, rw (← is_kept, kept_is) e)

  -- a line that starts at the front stays there
  pub stays : from ≡ 0 → Kept text
  stays z = down (sym (take-append-drop count text) ∙ ap (λ (n : ℕ). take count (drop n text) ++ drop count text) (sym z))
