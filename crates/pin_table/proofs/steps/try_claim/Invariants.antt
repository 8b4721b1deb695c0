use Rattle.pin_table.proofs.steps.try_claim.Given as goal

abbrev pub ghosts-try_claim_as : goal.ghosts-try_claim_as
ghosts-try_claim_as g a = record { slot = a.slot }
