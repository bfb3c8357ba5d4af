mod Booked
