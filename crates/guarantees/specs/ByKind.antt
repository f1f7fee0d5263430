-- Each kind's own theorems by the kind's name; and why they hold of words of any kind too: every state that a store reaches has its own kind's number
-- as kind word, since it is not damaged, so that the step told by the kind word is that kind's own. Assumes nothing.
use Rattle.std.specs.Prelude.{ℕ, ◌≡◌, refl, Bool, true, false, pos, get_or, eqb}
use Rattle.std.proofs.Common.{arith, sym, ap, ◌∙◌, subst, eqb-true}
use Rattle.std.specs.Prelude.{Option, Some as some, None as none}
use Rattle.std.proofs.lemmas.Bool.{eqb-false}
use Rattle.base.specs.RowLaws.{clash}
use Rattle.calls.specs.declared.Call.{Call}
use Rattle.calls.specs.declared.Reply.TheVariants.{Refused}
use Rattle.calls.specs.Events.{accepted}
use Rattle.calls.specs.ReplyNumbersLaws.{PitchFitsWord, Representable}
use Rattle.calls.specs.Numbers.{kind_new, kind_old, kind_rest}
use Rattle.statement.specs.Machine.{State, Outcome, Given, Machine, Fresh, after_all}
use Rattle.statement.specs.Demand3.{Demand3}
use Rattle.statement.specs.Frame.{Frame}
use Rattle.statement.specs.Companions.{Traits, GraceTraits}
use Rattle.statement.specs.Alike.{Alike}
use Rattle.publication_law.specs.Table.{machine}
use Rattle.publication_law.proofs.Calls.{undamaged_facts}
use Rattle.publication_law.proofs.Frames.{same_framed}
use Rattle.publication_law.specs.Promises.{EveryPromises, Promises}
use Rattle.grace_version_law.specs.Traits as new-traits
use Rattle.grace_version_law.proofs.Promises as new-law
use Rattle.two_phase_law.specs.Traits as old-traits
use Rattle.two_phase_law.proofs.Promises as old-law
use Rattle.qsbr_law.specs.Traits as rest-traits
use Rattle.qsbr_law.proofs.Promises as rest-law
use Rattle.kinds_law.specs.declared.Kind.{Kind}
use Rattle.kinds_law.specs.Kinds.{table_of, kind_number, step_of, making_of, store}
use Rattle.kinds_law.specs.declared.Kind.TheVariants.{New as new, Old as old, Rest as rest}
use Rattle.kinds_law.proofs.Calls.{number_is, step_named, making_named, making_unknown}

-- A kind by itself.
abbrev pub store_of : Kind → Machine
store_of kind = machine (table_of kind)

abbrev pub traits : Kind → Traits
traits new = (new-traits.traits).every
traits old = (old-traits.traits).every
traits rest = rest-traits.traits

pub kind_promises : (kind : Kind) → EveryPromises (table_of kind) (traits kind)
kind_promises new = (new-law.new_promises).every
kind_promises old = (old-law.old_promises).every
kind_promises rest = rest-law.rest_promises

pub kind_demand3 : (kind : Kind) → Demand3 (store_of kind) (λ z. z.table)
kind_demand3 new = new-law.new_demand3
kind_demand3 old = old-law.old_demand3
kind_demand3 rest = (rest-law.rest_promises).demand3

-- The kinds with sections, SYNC and WALK.
pub data GraceKind : Kind → Type 0 where
  grace_new : GraceKind new
  grace_old : GraceKind old

abbrev pub grace_traits : (kind : Kind) → GraceKind kind → GraceTraits
grace_traits new grace_new = new-traits.traits
grace_traits old grace_old = old-traits.traits
grace_traits rest x' = elim x' [ ]

pub grace_promises : (kind : Kind) (grace : GraceKind kind) → Promises (table_of kind) (grace_traits kind grace)
grace_promises new grace_new = new-law.new_promises
grace_promises old grace_old = old-law.old_promises
grace_promises rest x' = elim x' [ ]

-- The store of a kind's number is alike.
pub alike : (kind : Kind) → Alike (store_of kind) (store (kind_number kind))
alike kind = record {
  makings = λ z s. making_named kind z s;
  steps = λ s f cs c. step_named kind (after_all (store_of kind) s cs) c ((undamaged_facts (table_of kind) (after_all (store_of kind) s cs) ((kind_promises kind).never_damaged s f cs)).head.kind_is ∙ number_is kind);
}

-- A number that names no kind has no fresh store.
no_store : (n : ℕ) → ((z : Given) (s : State) → accepted ((store n).making z s).reply ≡ false) → (s : State) → Fresh (store n) s → ⊥
no_store n e s f = clash (sym (ap (λ (o : Outcome). accepted o.reply) f.made) ∙ e f.arguments f.lent)

-- What holds of the store of each kind's number, and of a number with no fresh store, holds of every number.
pub by_number : (Q : ℕ → Type 0) → ((kind : Kind) → Q (kind_number kind)) → ((n : ℕ) → ((s : State) → Fresh (store n) s → ⊥) → Q n) → (n : ℕ) → Q n
by_number Q each otherwise n = go (eqb n kind_new) (eqb n kind_old) (eqb n kind_rest) refl refl refl
  where
    go : (is-new is-old is-rest : Bool) → eqb n kind_new ≡ is-new → eqb n kind_old ≡ is-old → eqb n kind_rest ≡ is-rest → Q n
    go true is-old is-rest d e f = subst Q (sym (eqb-true n kind_new d)) (each new)
    go false true is-rest d e f = subst Q (sym (eqb-true n kind_old e)) (each old)
    go false false true d e f = subst Q (sym (eqb-true n kind_rest f)) (each rest)
    go false false false d e f = otherwise n (no_store n (λ z s. ap (λ (o : Outcome). accepted o.reply) (sym (making_unknown n z s (eqb-false n kind_new d) (eqb-false n kind_old e) (eqb-false n kind_rest f)))))

-- What holds of every state: of each kind's own step and making, and of words of no kind, where all is refused.
abbrev pub Chosen : Option Kind → Machine
Chosen chosen = record { making = making_of chosen; step = step_of chosen }

pub chosen_leaves : (chosen : Option Kind) (s : State) (c : Call) (n : ℕ) → (step_of chosen s c).reply ≡ Refused n → (step_of chosen s c).after ≡ s
chosen_leaves none s c n e = refl
chosen_leaves (some kind) s c n e = (kind_promises kind).refused_leaves.step s c n e

-- Whether readers publish versions; words of no kind have none.
abbrev pub publishes_of : Option Kind → Bool
publishes_of none = false
publishes_of (some kind) = (traits kind).publishes

pub chosen_frame : (chosen : Option Kind) → Frame (λ s. publishes_of chosen) (Chosen chosen)
chosen_frame none = record { words = λ s c. same_framed false c s.words; entries = λ s c ne. refl; writes = λ s p v. record { stored = λ ok. clash (sym ok); others = λ j ne. refl; long = refl } }
chosen_frame (some kind) = (kind_promises kind).frame

pub chosen_representable : (chosen : Option Kind) (s : State) (c : Call) → ((j : ℕ) → PitchFitsWord (get_or s.entries j (pos 0))) → Representable (step_of chosen s c).reply
chosen_representable none s c h = omega arith
chosen_representable (some kind) s c h = (kind_promises kind).representable s c h

pub chosen_representable_making : (chosen : Option Kind) (z : Given) (s : State) → Representable (making_of chosen z s).reply
chosen_representable_making none z s = omega arith
chosen_representable_making (some kind) z s = (kind_promises kind).representable_making z s
