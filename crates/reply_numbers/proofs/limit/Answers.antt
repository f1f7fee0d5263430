-- `limit` meets its contract: the array is the list of the definitions. Assumes nothing.
use lib.ListN.{get_or}
use mathlib.Core.Path.{◌≡◌, refl, ap}
use mathlib.Core.List.{List, [], ◌∷◌}
use Prim.Native.Nat.{ℕ}
use Rattle.calls.specs.Numbers.{kind_new, kind_old, kind_rest, readers_max, publishers_max, slots_min, slots_max, table_length, pitch_bytes, pitch_low, pitch_high, step_max, feathered_pitch, not_reading, deferred_max}
use Rattle.calls.specs.ReplyNumbers.{pitch_number}
use Rattle.layout.specs.Layout.{words_length}
use Rattle.grace_version_law.specs.Steps as new-store
use Rattle.qsbr_law.specs.Steps as rest-store
use Rattle.reply_numbers.specs.Numbers.{limits}
use Rattle.reply_numbers.proofs.limit.Goals as goal

reply-numbers-are : (a b d e : ℕ) → a ≡ pitch_number pitch_low → b ≡ pitch_number pitch_high → d ≡ pitch_number feathered_pitch → e ≡ pitch_number step_max
    → words_length ∷ kind_new ∷ kind_old ∷ readers_max ∷ publishers_max ∷ slots_min ∷ slots_max ∷ table_length ∷ a ∷ b ∷ d ∷ not_reading ∷ new-store.last_version ∷ e ∷ pitch_bytes ∷ kind_rest ∷ rest-store.last_version ∷ deferred_max ∷ [] ≡ limits
reply-numbers-are a b d e is-low is-high is-feathered is-step = rw (is-low, is-high, is-feathered, is-step) refl

pub returns : goal.returns
returns c = ap (λ (l : List ℕ). get_or l c.args.which 0) (reply-numbers-are _ _ _ _ c.pitch_number-low.ensures c.pitch_number-high.ensures c.pitch_number-feathered.ensures c.pitch_number-step.ensures)
