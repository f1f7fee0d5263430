-- A call of the rest store moves what it names and nothing else: for every state that is not damaged. Assumes nothing.
use Rattle.std.specs.Prelude.{ℕ, ◌+◌, ◌<◌, ◌≡◌, refl, ◌≢◌, ◌⊎◌, Bool, true, false, List, get_or, length, eqb}
use Rattle.std.proofs.Common.{arith, sym, ap, ◌∙◌, inl, inr, eqb-true}
use Rattle.std.proofs.Math.Option.{some}
use Rattle.std.proofs.lemmas.Bool.{eqb-false}
use Rattle.base.specs.Base.{choose, upd}
use Rattle.base.specs.RowLaws.{clash, same, choose_split, upd_other}
use Rattle.calls.specs.declared.Call.{Call}
use Rattle.calls.specs.declared.Call.TheVariants.{Pick, Checkpoint, Defer}
use Rattle.calls.specs.Numbers.{publishers_max, deferred_max, place_out, place_picked, place_idle, place_deferring}
use Rattle.layout.specs.declared.Reader.{Reader}
use Rattle.layout.specs.declared.Publisher.{Publisher}
use Rattle.layout.specs.declared.Retirement.{Retirement}
use Rattle.layout.specs.declared.Retired.{Retired}
use Rattle.layout.specs.Layout.{head_word_count, version_at, words_length, readers, current, version, reader_at, publisher_at, retirement_at, retired_at}
use Rattle.layout.specs.Records.{◌place≔◌, ◌second≔◌, ◌published≔◌, ◌picked≔◌, ◌at_place◌, ◌walk≔◌, ◌mark≔◌, ◌step≔◌, ◌count≔◌}
use Rattle.statement.specs.Machine.{State, Outcome}
use Rattle.statement.specs.Frame.{reader_named, publisher_named, retirement_named, head_named, NamedStays, Framed}
use Rattle.publication_law.specs.Steps.{reader, publisher}
use Rattle.publication_law.proofs.Frames.{place_and_one}
use Rattle.qsbr_law.specs.Steps.{retirement, pick, step_to, least_read, after_freeing, read_last, checkpoint, raise_epoch, queue, defer}
use Rattle.qsbr_law.specs.Moves.{Moves}
use Rattle.qsbr_law.proofs.Moves.{reader_moves, and_publisher, and_version, and_retirement, and_retired, and_freed}

module _ (publishes : Bool) (c : Call) (w w' : List ℕ) (p : ℕ) (x : Reader) (y : Publisher) (t : Retirement) (d : ℕ → Retired) (ver : ℕ) (m : Moves w w' p x y t d ver) where
  pub reader_is : reader_at w' p ≡ x
  reader_is = ap (λ (f : ℕ → Reader). f p) m.readers_are ∙ rw (same p) refl

  pub publisher_is : publisher_at w' p ≡ y
  publisher_is = ap (λ (f : ℕ → Publisher). f p) m.publishers_are ∙ rw (same p) refl

  pub retirement_is : retirement_at w' p ≡ t
  retirement_is = ap (λ (f : ℕ → Retirement). f p) m.retirements_are ∙ rw (same p) refl

  pub retired_is : retired_at w' p ≡ d
  retired_is = ap (λ (f : ℕ → ℕ → Retired). f p) m.retired_are ∙ rw (same p) refl

  -- Of a function with one value replaced every other stays; and that one too, where it is replaced by itself.
  other_stays : {A : Type 0} (after before : ℕ → A) (a : A) → after ≡ upd before p a → (q : ℕ) → ((q ≡ p → ⊥) ⊎ (a ≡ before p)) → after q ≡ before q
  other_stays after before a is q (inl ne) = ap (λ (f : ℕ → _). f q) is ∙ upd_other before p a q (λ e. ne (sym e))
  other_stays after before a is q (inr stays) = ap (λ (f : ℕ → _). f q) is ∙ go (eqb q p) refl
    where
      go : (b : Bool) → eqb q p ≡ b → choose b a (before q) ≡ before q
      go true e = stays ∙ ap before (sym (eqb-true q p e))
      go false e = refl

  pub framed_by : reader_named c ≡ some p → ((publisher_named c ≡ some p) ⊎ (y ≡ publisher_at w p)) → ((retirement_named c ≡ some p) ⊎ ((t ≡ retirement_at w p) × (d ≡ retired_at w p)))
      → ((head_named publishes c version_at ≡ true) ⊎ (ver ≡ version w)) → NamedStays publishes c w w' → Framed publishes c w w'
  framed_by reader-named publisher-so retirement-so head-so own = record {
    long = m.long;
    readers = λ q ne. other_stays (reader_at w') (reader_at w) x m.readers_are q (inl (λ e. ne (reader-named ∙ ap some (sym e))));
    publishers = λ q ne. other_stays (publisher_at w') (publisher_at w) y m.publishers_are q (to_publisher q ne publisher-so);
    retirements = λ q ne. other_stays (retirement_at w') (retirement_at w) t m.retirements_are q (to_retirement q ne retirement-so);
    retired = λ q ne. other_stays (retired_at w') (retired_at w) d m.retired_are q (to_retired q ne retirement-so);
    own_stays = own;
    head = λ j l e. at_head j l e (eqb j version_at) refl head-so;
    one = (version_at, λ j l ne. m.head j l ne);
  }
    where
      to_publisher : (q : ℕ) → publisher_named c ≢ some q → ((publisher_named c ≡ some p) ⊎ (y ≡ publisher_at w p)) → (q ≡ p → ⊥) ⊎ (y ≡ publisher_at w p)
      to_publisher q ne (inl named) = inl (λ e. ne (named ∙ ap some (sym e)))
      to_publisher q ne (inr stays) = inr stays

      to_retirement : (q : ℕ) → retirement_named c ≢ some q → ((retirement_named c ≡ some p) ⊎ ((t ≡ retirement_at w p) × (d ≡ retired_at w p))) → (q ≡ p → ⊥) ⊎ (t ≡ retirement_at w p)
      to_retirement q ne (inl named) = inl (λ e. ne (named ∙ ap some (sym e)))
      to_retirement q ne (inr stays) = inr stays.0

      to_retired : (q : ℕ) → retirement_named c ≢ some q → ((retirement_named c ≡ some p) ⊎ ((t ≡ retirement_at w p) × (d ≡ retired_at w p))) → (q ≡ p → ⊥) ⊎ (d ≡ retired_at w p)
      to_retired q ne (inl named) = inl (λ e. ne (named ∙ ap some (sym e)))
      to_retired q ne (inr stays) = inr stays.1

      at_head : (j : ℕ) → j < head_word_count → head_named publishes c j ≡ false → (b : Bool) → eqb j version_at ≡ b → ((head_named publishes c version_at ≡ true) ⊎ (ver ≡ version w)) → get_or w' j 0 ≡ get_or w j 0
      at_head j l e true at (inl named) = clash (sym named ∙ rw (eqb-true j version_at at) at e)
      at_head j l e true at (inr stays) = rw (eqb-true j version_at at) (m.version_is ∙ stays)
      at_head j l e false ne so = m.head j l (eqb-false j version_at ne)

-- The calls, on words of the right length and for a participant that has records.
module _ (publishes : Bool) (s : State) (p : ℕ) (long : length s.words ≡ words_length) (low : p < publishers_max) where
  pub pick_moves : Moves s.words (pick s p).after.words p (reader s p place≔ place_picked picked≔ current s.words) (publisher s p) (retirement s p) (retired_at s.words p) (version s.words)
  pick_moves = reader_moves s.words p long low _

  pub pick_framed : Framed publishes (Pick p) s.words (pick s p).after.words
  pick_framed = framed_by publishes (Pick p) _ _ p _ _ _ _ _ pick_moves refl (inr refl) (inr (refl, refl)) (inr refl)
      (rw (reader_is publishes (Pick p) _ _ p _ _ _ _ _ pick_moves) (record { first = refl; second = refl; published = refl }))

  pub step_moves : (k : ℕ) (x : Reader) → Moves s.words (step_to s p k x) p x (publisher s p) (retirement s p step≔ k) (retired_at s.words p) (version s.words)
  step_moves k x = and_retirement s.words p long low _ x _ _ _ _ (reader_moves s.words p long low x) (retirement s p step≔ k)

  step_framed : (k : ℕ) (x : Reader) (j : ℕ) → x.picked ≡ (reader s p).picked → (1 ≢ j → x.first ≡ (reader s p).first) → (2 ≢ j → x.second ≡ (reader s p).second) → (3 ≢ j → x.published ≡ (reader s p).published)
      → Framed publishes (Checkpoint p) s.words (step_to s p k x)
  step_framed k x j same-picked first second published = framed_by publishes (Checkpoint p) _ _ p x _ _ _ _ (step_moves k x) refl (inr refl) (inl refl) (inr refl)
      (rw (reader_is publishes (Checkpoint p) _ _ p x _ _ _ _ (step_moves k x)) (record { picked = same-picked; one = place_and_one (reader s p) x j first second published (λ _. same-picked) }))

  pub last_moves : (retirement s p).count < deferred_max + 1
      → Moves s.words (read_last s p).after.words p (reader s p second≔ least_read s p) (publisher s p) (retirement s p step≔ 0 count≔ (after_freeing s p).count) (retired_at (after_freeing s p).words p) (version s.words)
  last_moves few =
      let freed = and_freed s.words p long low _ _ _ _ _ _ (reader_moves s.words p long low (reader s p second≔ least_read s p)) (least_read s p) (retirement s p).count (omega arith) in
      and_retirement s.words p long low _ _ _ _ _ _ freed _

  pub checkpoint_framed : (retirement s p).count < deferred_max + 1 → Framed publishes (Checkpoint p) s.words (checkpoint s p).after.words
  checkpoint_framed few = choose_split Kept (eqb (retirement s p).step 0) (λ _. step_framed 1 _ 1 refl (λ ne. absurd (ne refl)) (λ _. refl) (λ _. refl))
      (λ _. choose_split Kept (eqb (retirement s p).step 1) (λ _. step_framed 2 _ 3 refl (λ _. refl) (λ _. refl) (λ ne. absurd (ne refl)))
      (λ _. choose_split Kept (eqb (retirement s p).step (readers s.words + 1)) (λ _. last_framed) (λ _. step_framed ((retirement s p).step + 1) _ 2 refl (λ _. refl) (λ ne. absurd (ne refl)) (λ _. refl))))
    where
      Kept : Outcome → Type 0
      Kept o = Framed publishes (Checkpoint p) s.words o.after.words

      x : Reader
      x = reader s p second≔ least_read s p

      last_framed : Kept (read_last s p)
      last_framed = framed_by publishes (Checkpoint p) _ _ p x _ _ _ _ (last_moves few) refl (inr refl) (inl refl) (inr refl)
          (rw (reader_is publishes (Checkpoint p) _ _ p x _ _ _ _ (last_moves few)) (record { picked = refl; one = place_and_one (reader s p) x 2 (λ _. refl) (λ ne. absurd (ne refl)) (λ _. refl) (λ _. refl) }))

  pub raise_moves : Moves s.words (raise_epoch s p).after.words p (reader s p place≔ place_out) (publisher s p at_place place_deferring walk≔ ((publisher s p).walk mark≔ (version s.words + 1)))
      (retirement s p) (retired_at s.words p) (version s.words + 1)
  raise_moves =
      let both = and_publisher s.words p long low _ _ _ _ _ _ (reader_moves s.words p long low (reader s p place≔ place_out)) _ in
      and_version s.words p long low _ _ _ _ _ _ both (version s.words + 1)

  pub queue_moves : (retirement s p).count < deferred_max
      → Moves s.words (queue s p).after.words p (reader s p published≔ (publisher s p).walk.mark) (publisher s p at_place place_idle) (retirement s p count≔ (retirement s p).count + 1)
      (upd (retired_at s.words p) (retirement s p).count (record { slot = (publisher s p).held; mark = (publisher s p).walk.mark })) (version s.words)
  queue_moves room =
      let both = and_publisher s.words p long low _ _ _ _ _ _ (reader_moves s.words p long low (reader s p published≔ (publisher s p).walk.mark)) (publisher s p at_place place_idle) in
      let queued = and_retired s.words p long low _ _ _ _ _ _ both (retirement s p).count (record { slot = (publisher s p).held; mark = (publisher s p).walk.mark }) room in
      and_retirement s.words p long low _ _ _ _ _ _ queued (retirement s p count≔ (retirement s p).count + 1)

  raise_framed : Framed publishes (Defer p) s.words (raise_epoch s p).after.words
  raise_framed =
      let m = raise_moves in
      framed_by publishes (Defer p) _ _ p _ _ _ _ _ m refl (inl refl) (inl refl) (inl refl)
      (record {
        first = ap (λ (x' : Reader). x'.first) (reader_is publishes (Defer p) _ _ p _ _ _ _ _ m);
        second = ap (λ (x' : Reader). x'.second) (reader_is publishes (Defer p) _ _ p _ _ _ _ _ m);
        picked = ap (λ (x' : Reader). x'.picked) (reader_is publishes (Defer p) _ _ p _ _ _ _ _ m);
        held = ap (λ (y' : Publisher). y'.held) (publisher_is publishes (Defer p) _ _ p _ _ _ _ _ m);
        next = ap (λ (y' : Publisher). y'.walk.next) (publisher_is publishes (Defer p) _ _ p _ _ _ _ _ m);
        looks = ap (λ (y' : Publisher). y'.walk.looks) (publisher_is publishes (Defer p) _ _ p _ _ _ _ _ m);
        waits = ap (λ (y' : Publisher). y'.walk.waits) (publisher_is publishes (Defer p) _ _ p _ _ _ _ _ m);
        step = ap (λ (t : Retirement). t.step) (retirement_is publishes (Defer p) _ _ p _ _ _ _ _ m);
        retired = λ i ne. ap (λ (f : ℕ → Retired). f i) (retired_is publishes (Defer p) _ _ p _ _ _ _ _ m);
      })

  queue_framed : (retirement s p).count < deferred_max → Framed publishes (Defer p) s.words (queue s p).after.words
  queue_framed room =
      let m = queue_moves room in
      framed_by publishes (Defer p) _ _ p _ _ _ _ _ m refl (inl refl) (inl refl) (inr refl)
      (record {
        first = ap (λ (x' : Reader). x'.first) (reader_is publishes (Defer p) _ _ p _ _ _ _ _ m);
        second = ap (λ (x' : Reader). x'.second) (reader_is publishes (Defer p) _ _ p _ _ _ _ _ m);
        picked = ap (λ (x' : Reader). x'.picked) (reader_is publishes (Defer p) _ _ p _ _ _ _ _ m);
        held = ap (λ (y' : Publisher). y'.held) (publisher_is publishes (Defer p) _ _ p _ _ _ _ _ m);
        next = ap (λ (y' : Publisher). y'.walk.next) (publisher_is publishes (Defer p) _ _ p _ _ _ _ _ m);
        looks = ap (λ (y' : Publisher). y'.walk.looks) (publisher_is publishes (Defer p) _ _ p _ _ _ _ _ m);
        waits = ap (λ (y' : Publisher). y'.walk.waits) (publisher_is publishes (Defer p) _ _ p _ _ _ _ _ m);
        step = ap (λ (t : Retirement). t.step) (retirement_is publishes (Defer p) _ _ p _ _ _ _ _ m);
        retired = λ i ne. ap (λ (f : ℕ → Retired). f i) (retired_is publishes (Defer p) _ _ p _ _ _ _ _ m) ∙ upd_other (retired_at s.words p) (retirement s p).count _ i (λ e. ne (sym e));
      })

  pub defer_framed : ((publisher s p).place ≢ 34 → (retirement s p).count < deferred_max) → Framed publishes (Defer p) s.words (defer s p).after.words
  defer_framed room = choose_split (λ (o : Outcome). Framed publishes (Defer p) s.words o.after.words) (eqb (publisher s p).place 34) (λ _. raise_framed) (λ ne. queue_framed (room (eqb-false _ _ ne)))
