-- A sheet depends on its table only as a first table: two that have not 32 entries get the same refusals, since row 40 applies to both. And never does a line become
-- unread for the table's sake. Assumes nothing.
use Rattle.std.specs.Prelude.{ℕ, suc, ◌*◌, ◌≡◌, ◌≢◌, ◌↔◌, ◌⊎◌, Bool, not, ◌&&◌, ◌||◌, eqb, ltb, ℤ, length, take, drop, Option, Some, None}
use Rattle.std.proofs.Common.{arith, sym, ap, ◌∙◌, inl, inr, length-take, take-append-drop, take_all, ne_eqb, ltb-true, ltb-false}
use Rattle.std.proofs.Math.Path.{refl}
use Rattle.std.proofs.Math.Bool.{true, false}
use mathlib.Core.List.{List, [], ◌∷◌, ◌++◌}
use Rattle.base.specs.Base.{choose}
use Rattle.std.proofs.lemmas.Option.{none-some}
use Rattle.base.specs.Rows.{Test, first_of, outside}
use Rattle.base.specs.RowLaws.{choose_split}
use Rattle.calls.specs.declared.Call.{Call}
use Rattle.calls.specs.declared.Reply.TheVariants.{Made, Refused}
use Rattle.calls.specs.Numbers.{readers_max, publishers_max, slots_min, slots_max, table_length, damaged_number}
use Rattle.layout.specs.Layout.{words_length, kind_word}
use Rattle.statement.specs.Machine.{State, state, Outcome, outcome, given}
use Rattle.publication_law.specs.Steps.{Versions, decide, making_tests}
use Rattle.publication_law.specs.Table.{making}
use Rattle.publication_law.proofs.Clear.{making_unrefused}
use Rattle.kinds_law.specs.declared.Kind.{Kind}
use Rattle.kinds_law.specs.Kinds.{table_of, kind_of_number, any_making, lacked_by}
use Rattle.kinds_law.specs.declared.Kind.TheVariants.{New as new, Old as old, Rest as rest}
use Rattle.lines_law.specs.Lines.{printed_for, lines_of}
use Rattle.sheet_law.specs.declared.Command.{Command}
use Rattle.sheet_law.specs.declared.Command.TheVariants.{Make, Run}
use Rattle.sheet_law.specs.Text.{text}
use Rattle.sheet_law.specs.Reading.{line_of}
use Rattle.sheet_law.specs.Printing.{reply_text}
use Rattle.sheet_law.specs.Sheet.{rejoined, played, known, line_for, said_to, after_line, LinesPlayed, lines_played, unmade, sheet_reader, sheet}
use Rattle.sheet_law.proofs.Replies.{no_reply_unread}
use Rattle.sheet_law.specs.ByTable.{as_first_table, Early, RefusedWithout, LackedCall}

not_32 : (l : List ℤ) → as_first_table l ≡ None → eqb (length l) table_length ≡ false
not_32 l = go (eqb (length l) table_length) refl
  where
    go : (b : Bool) → eqb (length l) table_length ≡ b → choose b (Some l) None ≡ None → eqb (length l) table_length ≡ false
    go true e h = absurd (none-some l (sym h))
    go false e h = e

-- One first table is one list.
one_list : (l m : List ℤ) → as_first_table l ≡ as_first_table m → (l ≡ m) ⊎ ((as_first_table l ≡ None) × (as_first_table m ≡ None))
one_list l m = go (eqb (length l) table_length) (eqb (length m) table_length)
  where
    go : (a b : Bool) → choose a (Some l) None ≡ choose b (Some m) None → (l ≡ m) ⊎ ((choose a (Some l) None ≡ None) × (choose b (Some m) None ≡ None))
    go true true e = inl cc
    go true false e = absurd (none-some l (sym e))
    go false true e = absurd (none-some m e)
    go false false e = inr (refl, refl)

refuses : (rows : List Test) (o : Outcome) (s : State) (n : ℕ) → first_of rows ≡ n → n ≢ 0 → decide rows o s ≡ outcome (Refused n) s
refuses rows o s n e ne = rw (e, ne_eqb n 0 ne) refl

-- The rows of a making without a first table: the number does not depend on what there is in place of one.
module _ (of_participants : Bool) (vs : Versions) (rs ps ss version : ℕ) (s : State) where
  abbrev rows_with : List ℤ → List Test
  rows_with l = making_tests of_participants vs (given rs ps ss version l) s

  number_same : (l : List ℤ) → as_first_table l ≡ None → first_of (rows_with l) ≡ first_of (rows_with [])
  number_same l e = rw (not_32 l e) refl

  number_some : first_of (rows_with []) ≢ 0
  number_some e = let long : 0 ≡ table_length = (making_unrefused of_participants vs (given rs ps ss version []) s e).table_long in omega arith

  refused_without : (o : Outcome) (l : List ℤ) → as_first_table l ≡ None → decide (rows_with l) o s ≡ outcome (Refused (first_of (rows_with []))) s
  refused_without o l e = refuses (rows_with l) o s (first_of (rows_with [])) (number_same l e) number_some

  number_early : Early (first_of (rows_with []))
  number_early =
      choose_split Early (not (eqb (length s.words) words_length)) (λ e. inl (omega arith)) (λ e.
      choose_split Early (outside 1 readers_max rs) (λ e. inl (omega arith)) (λ e.
      choose_split Early ((of_participants && not (eqb ps rs)) || outside 1 publishers_max ps) (λ e. inl (omega arith)) (λ e.
      choose_split Early (outside slots_min slots_max ss) (λ e. inl (omega arith)) (λ e.
      choose_split Early (not (eqb (length s.entries) (ss * table_length))) (λ e. inl (omega arith)) (λ e.
      choose_split Early (vs.too_large version) (λ e. inl (omega arith)) (λ e. inr refl))))))

module _ (rs ps ss version : ℕ) (s : State) where
  abbrev number_of : Kind → ℕ
  number_of kind = first_of ((table_of kind).making_tests (given rs ps ss version []) s)

  early_of : (kind : Kind) → Early (number_of kind)
  early_of new = number_early false (table_of new).damage.versions rs ps ss version s
  early_of old = number_early false (table_of old).damage.versions rs ps ss version s
  early_of rest = number_early true (table_of rest).damage.versions rs ps ss version s

  making_without : (kind : Kind) (l : List ℤ) → as_first_table l ≡ None → making (table_of kind) (given rs ps ss version l) s ≡ outcome (Refused (number_of kind)) s
  unfolding making
  making_without new l e = refused_without false (table_of new).damage.versions rs ps ss version s (outcome Made ((table_of new).fresh_store (given rs ps ss version l) s)) l e
  making_without old l e = refused_without false (table_of old).damage.versions rs ps ss version s (outcome Made ((table_of old).fresh_store (given rs ps ss version l) s)) l e
  making_without rest l e = refused_without true (table_of rest).damage.versions rs ps ss version s (outcome Made ((table_of rest).fresh_store (given rs ps ss version l) s)) l e

-- So is every `store`.
pub store_without : (s : State) (kind rs ps ss version : ℕ) → RefusedWithout s (Make kind rs ps ss version)
unfolding played any_making
store_without s number rs ps ss version = go (kind_of_number number) refl
  where
    part : State
    part = state s.words (take (ss * table_length) s.entries)

    rejoins : (o : Outcome) (n : ℕ) → o ≡ outcome (Refused n) part → rejoined o (drop (ss * table_length) s.entries) ≡ outcome (Refused n) s
    rejoins o n e = ap (λ (x : Outcome). rejoined x (drop (ss * table_length) s.entries)) e
        ∙ ap (λ (l : List ℤ). outcome (Refused n) (state s.words l)) (take-append-drop (ss * table_length) s.entries)

    go : (chosen : Option Kind) → kind_of_number number ≡ chosen → RefusedWithout s (Make number rs ps ss version)
    go None d = record { number = damaged_number; early = inl (omega arith); refused = λ l e. rw d (rejoins (outcome (Refused damaged_number) part) damaged_number refl) }
    go (Some kind) d = record {
      number = number_of rs ps ss version part kind;
      early = early_of rs ps ss version part kind;
      refused = λ l e. rw d (rejoins (making (table_of kind) (given rs ps ss version l) part) (number_of rs ps ss version part kind) (making_without rs ps ss version part kind l e));
    }

-- A command does the same with each of them.
same_played : (l m : List ℤ) → as_first_table l ≡ as_first_table m → (s : State) (c : Command) → played l s c ≡ played m s c
unfolding played
same_played l m e s (Run c) = refl
same_played l m e s (Make kind rs ps ss version) = go (one_list l m e)
  where
    go : (l ≡ m) ⊎ ((as_first_table l ≡ None) × (as_first_table m ≡ None)) → played l s (Make kind rs ps ss version) ≡ played m s (Make kind rs ps ss version)
    go (inl same) = ap (λ (table : List ℤ). played table s (Make kind rs ps ss version)) same
    go (inr (a, b)) = let q = store_without s kind rs ps ss version in q.refused l a ∙ sym (q.refused m b)

-- So does a whole sheet.
module _ (l m : List ℤ) (e : as_first_table l ≡ as_first_table m) where
  same_said : (s : State) (x : Option Command) → said_to l s x ≡ said_to m s x
  same_said s None = refl
  same_said s (Some c) = ap (λ (o : Outcome). reply_text o.reply) (same_played l m e s c)

  same_after : (s : State) (x : Option Command) → after_line l s x ≡ after_line m s x
  same_after s None = refl
  same_after s (Some c) = ap (λ (o : Outcome). o.after) (same_played l m e s c)

  same_printed : (kept : LinesPlayed) (ls : List (List ℕ)) → printed_for (sheet_reader l) kept ls ≡ printed_for (sheet_reader m) kept ls
  unfolding printed_for
  same_printed kept [] = refl
  same_printed kept (k ∷ ls) =
      rw (same_said kept.store (line_for kept.store k), same_after kept.store (line_for kept.store k))
      (ap (λ (t : List ℕ). (sheet_reader m).says kept k ++ t) (same_printed ((sheet_reader m).after kept k) ls))

  pub same_sheet : (t : List ℕ) → sheet l t ≡ sheet m t
  unfolding sheet
  same_sheet t = same_printed (lines_played 0 unmade) (lines_of t)

-- 33 entries tell whether there are 32.
pub first_33 : (l : List ℤ) → as_first_table (take (suc table_length) l) ≡ as_first_table l
first_33 l = go (ltb (suc table_length) (length l)) refl
  where
    go : (b : Bool) → ltb (suc table_length) (length l) ≡ b → as_first_table (take (suc table_length) l) ≡ as_first_table l
    go true e =
        let long = ltb-true (suc table_length) (length l) e in
        rw (ne_eqb (length (take (suc table_length) l)) table_length (λ z. omega (arith, z, length-take (suc table_length) l)), ne_eqb (length l) table_length (λ z. omega arith)) refl
    go false e = ap as_first_table (take_all (suc table_length) l (omega (arith, ltb-false (suc table_length) (length l) e)))

-- Whatever the first table, `unread` is said to exactly the lines that are no command, and to those calls.
pub said_unread_exactly : (table : List ℤ) (s : State) (l : List ℕ) → (said_to table s (line_for s l) ≡ text "unread") ↔ ((line_of l ≡ None) ⊎ LackedCall s l)
said_unread_exactly table s l = (λ e. only (line_of l) refl e, back)
  where
    never : (c : Command) → said_to table s (Some c) ≡ text "unread" → (line_of l ≡ None) ⊎ LackedCall s l
    never c e = absurd (no_reply_unread (played table s c).reply e)

    of_call : (c : Call) → line_of l ≡ Some (Run c) → (b : Bool) → lacked_by (kind_of_number (kind_word s.words)) c ≡ b → said_to table s (choose b None (Some (Run c))) ≡ text "unread" → (line_of l ≡ None) ⊎ LackedCall s l
    of_call c reads true lacked e = inr (record { call = c; reads = reads; lacked = lacked })
    of_call c reads false lacked e = never (Run c) e

    only : (x : Option Command) → line_of l ≡ x → said_to table s (known (kind_word s.words) x) ≡ text "unread" → (line_of l ≡ None) ⊎ LackedCall s l
    only None reads e = inl reads
    only (Some (Make kind rs ps ss version)) reads e = never (Make kind rs ps ss version) e
    only (Some (Run c)) reads e = of_call c reads (lacked_by (kind_of_number (kind_word s.words)) c) refl e

    back : (line_of l ≡ None) ⊎ LackedCall s l → said_to table s (line_for s l) ≡ text "unread"
    back (inl e) = rw e refl
    back (inr x) = rw (x.reads, x.lacked) refl
