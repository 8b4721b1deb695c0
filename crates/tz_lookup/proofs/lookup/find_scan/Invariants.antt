use Rattle.tz_lookup.proofs.lookup.find_scan.Given as goal

-- nothing is counted: each ledger is the one that is handed over
abbrev pub ghosts-scan_uncounted-Q-Ledger : goal.ghosts-scan_uncounted-Q-Ledger
ghosts-scan_uncounted-Q-Ledger a = record { name = a.of_probes.name; parts = a.of_probes.parts }

abbrev pub ghosts-scan_uncounted-L-Ledger : goal.ghosts-scan_uncounted-L-Ledger
ghosts-scan_uncounted-L-Ledger a = record { name = a.of_steps.name; parts = a.of_steps.parts }
