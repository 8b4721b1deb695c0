use Rattle.tz_lookup.proofs.lookup.find_info_by_windows.Given as goal

-- nothing is counted: each ledger is the one that is handed over
abbrev pub ghosts-range_uncounted-Q-Ledger : goal.ghosts-range_uncounted-Q-Ledger
ghosts-range_uncounted-Q-Ledger a = record { name = a.of_probes.name; parts = a.of_probes.parts }

abbrev pub ghosts-range_uncounted-L-Ledger : goal.ghosts-range_uncounted-L-Ledger
ghosts-range_uncounted-L-Ledger a = record { name = a.of_steps.name; parts = a.of_steps.parts }
