-- A step of the rest store writes what is of one participant, and perhaps the epoch: what the words then hold, by the laws of the layout. Assumes nothing.
use Rattle.std.specs.Prelude.{ℕ, ◌<◌, ◌≤◌, ◌≡◌, refl, Bool, true, false, List, length, eqb}
use Rattle.std.proofs.Common.{arith, sym, ap, ◌∙◌, length-set, get_or-set_same, get_or-set_other, eqb-true}
use Rattle.std.proofs.Math.Path.{fun_ext}
use Rattle.base.specs.Base.{choose, upd}
use Rattle.base.specs.RowLaws.{same}
use Rattle.calls.specs.Numbers.{readers_max, publishers_max, deferred_max}
use Rattle.layout.specs.declared.Reader.{Reader}
use Rattle.layout.specs.declared.Publisher.{Publisher}
use Rattle.layout.specs.declared.Retirement.{Retirement}
use Rattle.layout.specs.declared.Retired.{Retired}
use Rattle.layout.specs.Layout.{version_at, words_length, version, publisher_at, retirement_at, retired_at, with_version, with_reader, with_publisher, with_retirement, with_retired}
use Rattle.layout.specs.Laws.{length_reader, length_publisher, length_retirement, length_retired, head_reader, head_publisher, head_retirement, head_retired, reader_head, publisher_head, retirement_head, retired_head, reader_publisher, publisher_reader, retirement_reader, retired_reader, retirement_publisher, retired_publisher, reader_retirement, publisher_retirement, reader_retired, publisher_retired, retired_retirement, retirement_retired, reader_put, publisher_put, retirement_put, retired_put}
use Rattle.publication_law.specs.Moves.{upd_same}
use Rattle.qsbr_law.specs.Steps.{staying}
use Rattle.qsbr_law.proofs.Freeing.{frees}
use Rattle.qsbr_law.specs.Moves.{Moves}

-- Replaced once more.
upd_twice : {A : Type 0} (f : ℕ → A) (i : ℕ) (a b : A) → upd (upd f i a) i b ≡ upd f i b
upd_twice f i a b = fun_ext (λ j. go j (eqb j i))
  where
    go : (j : ℕ) (c : Bool) → choose c b (choose c a (f j)) ≡ choose c b (f j)
    go j true = refl
    go j false = refl

module _ (w : List ℕ) (p : ℕ) (long : length w ≡ words_length) (low : p < publishers_max) where
  reader_low : p < readers_max
  reader_low = omega arith

  -- A reader alone.
  pub reader_moves : (x : Reader) → Moves w (with_reader w p x) p x (publisher_at w p) (retirement_at w p) (retired_at w p) (version w)
  reader_moves x = record {
    long = length_reader w p x;
    head = λ j l _. head_reader w p x j l;
    version_is = head_reader w p x version_at (omega arith);
    readers_are = reader_put (λ (x' : Reader). x') w p x long reader_low;
    publishers_are = publisher_reader w p x reader_low ∙ sym (upd_same (publisher_at w) p);
    retirements_are = retirement_reader w p x reader_low ∙ sym (upd_same (retirement_at w) p);
    retired_are = retired_reader w p x reader_low ∙ sym (upd_same (retired_at w) p);
  }

  module _ (w' : List ℕ) (x : Reader) (y : Publisher) (t : Retirement) (d : ℕ → Retired) (ver : ℕ) (m : Moves w w' p x y t d ver) where
    -- .. and the publisher besides ..
    pub and_publisher : (y' : Publisher) → Moves w (with_publisher w' p y') p x y' t d ver
    and_publisher y' = record {
      long = length_publisher w' p y' ∙ m.long;
      head = λ j l ne. head_publisher w' p y' j l ∙ m.head j l ne;
      version_is = head_publisher w' p y' version_at (omega arith) ∙ m.version_is;
      readers_are = reader_publisher w' p y' ∙ m.readers_are;
      publishers_are = publisher_put (λ (y'' : Publisher). y'') w' p y' (m.long ∙ long) low ∙ (ap (λ (f : ℕ → Publisher). upd f p y') m.publishers_are ∙ upd_twice (publisher_at w) p y y');
      retirements_are = retirement_publisher w' p y' low ∙ m.retirements_are;
      retired_are = retired_publisher w' p y' low ∙ m.retired_are;
    }

    -- .. and the epoch ..
    pub and_version : (n : ℕ) → Moves w (with_version w' n) p x y t d n
    and_version n = record {
      long = length-set w' version_at n ∙ m.long;
      head = λ j l ne. get_or-set_other w' version_at j n 0 ne ∙ m.head j l ne;
      version_is = get_or-set_same w' version_at n 0 (omega (arith, m.long));
      readers_are = reader_head w' version_at n (omega arith) ∙ m.readers_are;
      publishers_are = publisher_head w' version_at n (omega arith) ∙ m.publishers_are;
      retirements_are = retirement_head w' version_at n (omega arith) ∙ m.retirements_are;
      retired_are = retired_head w' version_at n (omega arith) ∙ m.retired_are;
    }

    -- .. and the retirement ..
    pub and_retirement : (t' : Retirement) → Moves w (with_retirement w' p t') p x y t' d ver
    and_retirement t' = record {
      long = length_retirement w' p t' ∙ m.long;
      head = λ j l ne. head_retirement w' p t' j l ∙ m.head j l ne;
      version_is = head_retirement w' p t' version_at (omega arith) ∙ m.version_is;
      readers_are = reader_retirement w' p t' ∙ m.readers_are;
      publishers_are = publisher_retirement w' p t' ∙ m.publishers_are;
      retirements_are = retirement_put (λ (t'' : Retirement). t'') w' p t' (m.long ∙ long) low ∙ (ap (λ (f : ℕ → Retirement). upd f p t') m.retirements_are ∙ upd_twice (retirement_at w) p t t');
      retired_are = retired_retirement w' p t' low ∙ m.retired_are;
    }

    -- .. and one retired slot ..
    pub and_retired : (i : ℕ) (d' : Retired) → i < deferred_max → Moves w (with_retired w' p i d') p x y t (upd d i d') ver
    and_retired i d' room = record {
      long = length_retired w' p i d' ∙ m.long;
      head = λ j l ne. head_retired w' p i d' j l ∙ m.head j l ne;
      version_is = head_retired w' p i d' version_at (omega arith) ∙ m.version_is;
      readers_are = reader_retired w' p i d' ∙ m.readers_are;
      publishers_are = publisher_retired w' p i d' ∙ m.publishers_are;
      retirements_are = retirement_retired w' p i d' ∙ m.retirements_are;
      retired_are = retired_put w' p i d' (m.long ∙ long) low room
          ∙ (ap (λ (f : ℕ → ℕ → Retired). upd f p (upd (f p) i d')) m.retired_are ∙ rw (same p) (upd_twice (retired_at w) p d (upd d i d')));
    }

    -- .. and some retired slots freed.
    pub and_freed : (least n : ℕ) → n ≤ deferred_max → let after = staying p least n 0 0 w' in Moves w after.words p x y t (retired_at after.words p) ver
    and_freed least n room =
        let after = staying p least n 0 0 w' in
        let k = frees p least n 0 0 w' (omega arith) (omega arith) low (m.long ∙ long) in record {
          long = k.long ∙ m.long;
          head = λ j l ne. k.head j l ∙ m.head j l ne;
          version_is = k.head version_at (omega arith) ∙ m.version_is;
          readers_are = k.readers_stay ∙ m.readers_are;
          publishers_are = k.publishers_stay ∙ m.publishers_are;
          retirements_are = k.retirements_stay ∙ m.retirements_are;
          retired_are = fun_ext (λ q. go q (eqb q p) refl);
        }
      where
        go : (q : ℕ) (b : Bool) → eqb q p ≡ b → ◌≡◌ {A = ℕ → Retired} (retired_at (staying p least n 0 0 w').words q) (choose b (retired_at (staying p least n 0 0 w').words p) (retired_at w q))
        go q true e = rw (eqb-true q p e) refl
        go q false e = (frees p least n 0 0 w' (omega arith) (omega arith) low (m.long ∙ long)).others_stay q e ∙ (ap (λ (f : ℕ → ℕ → Retired). f q) m.retired_are ∙ rw e refl)
