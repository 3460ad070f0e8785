-- What it is for a contract to determine its answer. `crates/NAME/proofs/Determined.antt` shows it of every function of the crate NAME, inner ones too.
--
-- Of each function f Rattle makes from the source what the proofs of its callers go by:
--     c.f.ended        its parameters and its result, beside its contract
--     f.Reads.Asked    what a caller has to show: the claims of the `requires` clauses
--     f.Reads.Learnt   what a caller then knows of the result and of the parameters at exit: the claims of the `ensures` clauses
-- They are the contract here, and no clause is copied by hand: what is deleted or changed in src/ is deleted or changed in `Learnt`.
-- An outcome that the contract allows has `Learnt`; so where no two outcomes that have `Learnt` differ, no two that the contract allows do.
--
-- A contract that leaves something open is not determined:
--     no `ensures`                `Learnt` is the type with one value, and any two outcomes would be equal (`nothing_said`)
--     a buffer not spoken of      an outcome has a last value for each `&mut`, and any two buffers would be equal (`result_said`)
--     a bound for an equation     any two results within the bound would be equal
--     a `requires` more           `Answers` has it shown of whatever is passed
-- That there is an answer at all is the function's own theorem. That it is the right one is for the reader of the clause to say.
--
-- How the lines of a `Determined.antt` are read: c has the contracts of the crate's functions and f what is proved of them, x and y are two outcomes, and p and q what the contract says of each. The proof is a way from x to y, whose point i it gives part by part: the result, then
-- for each parameter the last value of a `&mut` and `tt` for any other, and a `tt` that ends the list. Where nothing is lent to be written `x.1` is all of the list. `λ κs a. tt` says that nothing is asked.
-- Assumes nothing.
use Rattle.std.specs.Prelude.{◌≡◌}
use Rattle.std.proofs.Common.{sym, ap, ◌∙◌}
use contract.Lifetimes.{Lfts}
use denote.Triple.Entry.{Args, Res}
use denote.Triple.Clauses.{Ended, Lasts, AtExit, at_exit}

module _ (f : Ended) where
  -- how a call ends: its result, and for each parameter its last value, which is nothing but for a `&mut`
  abbrev pub Outcome : (κs : Lfts f.signature.lifetimes) → Args f.signature κs → Type 0
  Outcome κs a = Res f.signature κs × Lasts f κs a

  -- what a contract asks of the arguments; the references among them are lent for the lifetimes κs
  abbrev pub Asking : Type 1
  Asking = (κs : Lfts f.signature.lifetimes) → Args f.signature κs → Type 0

  -- what a contract says of the arguments, the result, and the parameters at exit
  abbrev pub Saying : Type 1
  Saying = (κs : Lfts f.signature.lifetimes) → Args f.signature κs → Res f.signature κs → AtExit f κs → Type 0

  -- two outcomes of the same arguments that a contract allows are equal: the results, and every place of each lent buffer.
  -- Nothing is supposed of the arguments, not even what the contract asks
  abbrev pub Fixes : Saying → Type 0
  Fixes learnt = (κs : Lfts f.signature.lifetimes) (a : Args f.signature κs) (x y : Outcome κs a)
      → learnt κs a x.0 (at_exit f κs a x.1) → learnt κs a y.0 (at_exit f κs a y.1) → x ≡ y

  -- of a function without a `requires`: whatever is passed, the contract asks nothing; and it fixes the answer
  abbrev pub Answers : Asking → Saying → Type 0
  Answers asked learnt = ((κs : Lfts f.signature.lifetimes) (a : Args f.signature κs) → asked κs a) × Fixes learnt

  -- a contract that says nothing fixes an answer only where there is but one
  pub nothing_said : Fixes (λ κs a r e. Unit {0}) → (κs : Lfts f.signature.lifetimes) (a : Args f.signature κs) (x y : Outcome κs a) → x ≡ y
  nothing_said d κs a x y = d κs a x y tt tt

  -- a contract that speaks of the result alone fixes an answer only where nothing is lent to be written
  pub result_said : (said : (κs : Lfts f.signature.lifetimes) → Args f.signature κs → Res f.signature κs → Type 0) → Fixes (λ κs a r e. said κs a r)
      → (κs : Lfts f.signature.lifetimes) (a : Args f.signature κs) (r : Res f.signature κs) → said κs a r → (v w : Lasts f κs a) → v ≡ w
  result_said said d κs a r s v w = ap (λ (x : Outcome κs a). x.1) (d κs a (r, v) (r, w) s s)

-- what is equal to the same is equal
pub same : {A : Type 0} {x y z : A} → x ≡ z → y ≡ z → x ≡ y
same p q = p ∙ sym q
