-- Why an error comes.
use Rattle.std.specs.Prelude.{Option, Some, None}

-- Want of memory has no reason, and may come at any time. Any other error comes only for its reason.
abbrev pub HasReason : {R : Type 0} → (R → Type 0) → Option R → Type 0
HasReason holds None = Unit {0}
HasReason holds (Some reason) = holds reason
