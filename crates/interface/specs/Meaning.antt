-- What the three interfaces mean, as plain values.
use Rattle.std.specs.Prelude.{ℕ, Bool, false}

-- A key: which keys are equal, and the hash.
pub record Keying (K : Type 0) : Type 0 where
  pub same : K → K → Bool
  pub code : K → ℕ

-- A lifecycle over a request state S: what it pins, what a trim makes of the state and the record, and what
-- the state is after a record went to the hot or to the cold hook.
pub record Life (S K V : Type 0) : Type 0 where
  pub pins : K → V → Bool
  pub trim : S → K → V → S × V
  pub hot : S → K → V → S
  pub cold : S → K → V → S

-- The lifecycle that does nothing: it pins nothing and leaves every record and every state as it is.
abbrev pub idle : {S K V : Type 0} → Life S K V
idle = record { pins = λ _ _. false; trim = λ s _ v. (s, v); hot = λ s _ _. s; cold = λ s _ _. s }
