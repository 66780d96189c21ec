-- How the code's ways with a set, shifts, masks and counts of bits, come to the definitions of rules.
mod Digits
