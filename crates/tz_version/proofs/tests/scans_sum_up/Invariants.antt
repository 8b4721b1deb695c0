use Rattle.tz_version.proofs.tests.scans_sum_up.Given as goal

abbrev pub ghosts-scanned-Q-Ledger : goal.ghosts-scanned-Q-Ledger
ghosts-scanned-Q-Ledger g a = record { name = a.of_probes.name; parts = a.of_probes.parts }

abbrev pub ghosts-scanned-L-Ledger : goal.ghosts-scanned-L-Ledger
ghosts-scanned-L-Ledger g a = record { name = a.of_steps.name; parts = a.of_steps.parts }
