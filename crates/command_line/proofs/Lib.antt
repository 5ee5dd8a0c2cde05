mod DoneLemmas
