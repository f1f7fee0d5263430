-- A making and a CLAIM to which no row applies, each row by its name. Assumes nothing.
use Rattle.std.specs.Prelude.{ℕ, ◌+◌, ◌-◌, ◌≤◌, ◌≡◌, refl, Bool, false, not, ◌&&◌, List, ℤ, length, eqb}
use Rattle.std.proofs.Common.{arith, eqb-true, eq-eqb, leb-false}
use Rattle.std.proofs.lemmas.Bool.{lt-leb, not-false}
use Rattle.base.specs.Rows.{first_of, outside}
use Rattle.base.specs.RowLaws.{negated, or_false, and_false, and_not, neither, within, not_outside, none_below, no_below, AllClear, clear}
use Rattle.calls.specs.Numbers.{readers_max, publishers_max, slots_min, slots_max}
use Rattle.calls.specs.FirstTable.{out_of_range, any_out_of_range, steep, any_steep, entry_of}
use Rattle.statement.specs.Machine.{State, Given}
use Rattle.statement.specs.Companions.{GoodTable, MakingFits}
use Rattle.publication_law.specs.Steps.{Versions, claim_tests, making_tests}
use Rattle.publication_law.specs.Clear.{MakingClear, ClaimClear}

module _ (of_participants : Bool) (vs : Versions) (z : Given) (s : State) where
  pub making_clear : AllClear (making_tests of_participants vs z s) → MakingClear of_participants vs z s
  making_clear f =
      let rs = within 1 readers_max z.readers f.1.0 in
      let row3 = or_false (of_participants && not (eqb z.publishers z.readers)) (outside 1 publishers_max z.publishers) f.1.1.0 in
      let ps = within 1 publishers_max z.publishers row3.1 in
      let ss = within slots_min slots_max z.slots f.1.1.1.0 in
      record {
        long = eqb-true _ _ (not-false _ f.0);
        readers_low = rs.0;
        readers_high = rs.1;
        as_many = λ e. eqb-true _ _ (not-false _ (and_false of_participants (not (eqb z.publishers z.readers)) row3.0 e));
        publishers_low = ps.0;
        publishers_high = ps.1;
        slots_low = ss.0;
        slots_high = ss.1;
        entries_are = eqb-true _ _ (not-false _ f.1.1.1.1.0);
        version_fits = f.1.1.1.1.1.0;
        table_long = eqb-true _ _ (not-false _ f.1.1.1.1.1.1.0);
        table_in_range = f.1.1.1.1.1.1.1.0;
        table_steps = f.1.1.1.1.1.1.1.1.0;
      }

  pub making_rows_lem : MakingClear of_participants vs z s → AllClear (making_tests of_participants vs z s)
  making_rows_lem f = (
    negated _ (eq-eqb _ _ f.long),
    (
      not_outside 1 readers_max _ f.readers_low f.readers_high,
      (
        neither (of_participants && not (eqb z.publishers z.readers)) (outside 1 publishers_max z.publishers) (and_not of_participants (not (eqb z.publishers z.readers)) (λ e. negated _ (eq-eqb _ _ (f.as_many e)))) (not_outside 1 publishers_max _ f.publishers_low f.publishers_high),
        (not_outside slots_min slots_max _ f.slots_low f.slots_high, (negated _ (eq-eqb _ _ f.entries_are), (f.version_fits, (negated _ (eq-eqb _ _ f.table_long), (f.table_in_range, (f.table_steps, tt)))))),
      ),
    ),
  )

  -- Its table is a good one.
  pub table_is_good : MakingClear of_participants vs z s → GoodTable z.table
  table_is_good f = record {
    long = f.table_long;
    in_range = λ k l. none_below (λ k. out_of_range (entry_of z.table k)) _ k f.table_in_range (omega (arith, f.table_long));
    steps_bounded = λ k l. none_below (λ k. steep (entry_of z.table k) (entry_of z.table (k + 1))) _ k f.table_steps (omega (arith, f.table_long));
  }

  -- The same from the number of its first row that applies: there is none.
  pub making_unrefused : first_of (making_tests of_participants vs z s) ≡ 0 → MakingClear of_participants vs z s
  making_unrefused e = making_clear (clear (making_tests of_participants vs z s) refl e)

-- The last two rows do not apply to a good table.
pub good_in_range : (table : List ℤ) → GoodTable table → any_out_of_range table ≡ false
good_in_range table good = no_below (λ k. out_of_range (entry_of table k)) (length table) (λ k l. good.in_range k (omega (arith, good.long)))

pub good_steps : (table : List ℤ) → GoodTable table → any_steep table ≡ false
good_steps table good = no_below (λ k. steep (entry_of table k) (entry_of table (k + 1))) (length table - 1) (λ k l. good.steps_bounded k (omega (arith, good.long)))

-- What making asks is what its rows ask, where the greatest version is the one up to which versions fit.
module _ (of_participants : Bool) (vs : Versions) (z : Given) (s : State) (greatest : ℕ) where
  pub making_fits : (vs.too_large z.version ≡ false → z.version ≤ greatest) → MakingClear of_participants vs z s → MakingFits of_participants greatest z s
  making_fits to-greatest f = record {
    words_long = f.long;
    readers_low = f.readers_low;
    readers_high = f.readers_high;
    publishers_low = f.publishers_low;
    publishers_high = f.publishers_high;
    as_many = f.as_many;
    slots_low = f.slots_low;
    slots_high = f.slots_high;
    entries_long = f.entries_are;
    version_high = to-greatest f.version_fits;
    table_good = table_is_good of_participants vs z s f;
  }

  pub fitting_clear : (z.version ≤ greatest → vs.too_large z.version ≡ false) → MakingFits of_participants greatest z s → AllClear (making_tests of_participants vs z s)
  fitting_clear fits f = making_rows_lem of_participants vs z s (record {
    long = f.words_long;
    readers_low = f.readers_low;
    readers_high = f.readers_high;
    as_many = f.as_many;
    publishers_low = f.publishers_low;
    publishers_high = f.publishers_high;
    slots_low = f.slots_low;
    slots_high = f.slots_high;
    entries_are = f.entries_long;
    version_fits = fits f.version_high;
    table_long = f.table_good.long;
    table_in_range = good_in_range z.table f.table_good;
    table_steps = good_steps z.table f.table_good;
  })

module _ (exclusive retiring : Bool) (s : State) (p slot : ℕ) where
  pub claim_clear : AllClear (claim_tests exclusive retiring s p slot) → ClaimClear exclusive retiring s p slot
  claim_clear f = record {
    publisher_named_lem = leb-false _ _ f.0;
    slot_named = leb-false _ _ f.1.0;
    in_turn = eqb-true _ _ (not-false _ f.1.1.0);
    nobody_busy = f.1.1.1.0;
    unused = f.1.1.1.1.0;
  }

  pub claim_rows_lem : ClaimClear exclusive retiring s p slot → AllClear (claim_tests exclusive retiring s p slot)
  claim_rows_lem f = (lt-leb _ _ f.publisher_named_lem, (lt-leb _ _ f.slot_named, (negated _ (eq-eqb _ _ f.in_turn), (f.nobody_busy, (f.unused, tt)))))
